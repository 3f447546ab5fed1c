pub mod UriReading
