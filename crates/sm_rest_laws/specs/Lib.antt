pub use Rattle.sm_rest.specs as rest
