pub mod RpcForm
pub mod RpcWritten
pub mod Paths
pub mod RpcBodies
