pub mod FewHeld
