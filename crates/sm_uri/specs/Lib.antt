pub mod UriPattern
pub mod UriRoutes
pub mod steps
