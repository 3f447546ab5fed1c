pub mod SideWords
mod OneBody
mod SomeBody
pub mod BodyReaches
mod Bodies
