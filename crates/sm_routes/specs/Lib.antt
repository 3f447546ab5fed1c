pub mod Routes
pub mod RouteView
pub mod RoutesView
pub mod KeptOrder
pub mod WrittenTargets
pub mod steps
