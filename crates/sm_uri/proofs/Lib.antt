mod UriBytes
mod UriCuts
mod UriHeld
mod UriNames
pub mod UriOnce
mod UriParts
mod UriPaths
mod UriQueries
pub mod UriRouted
pub mod UriSegments
mod UriStops
