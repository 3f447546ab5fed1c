pub mod LinkCounts
pub mod ServeForms
mod StartStops
mod SessionsPut
mod LinksServed
mod ServesWhole
