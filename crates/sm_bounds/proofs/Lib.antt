pub mod ReceivedFew
