pub mod Counted
mod KeptNames
mod GrowingBodies
mod SideBodies
