pub mod ChangedLoads
