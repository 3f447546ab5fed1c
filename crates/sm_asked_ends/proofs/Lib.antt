pub mod EndsPrinted
pub mod WholeEnds
pub use Rattle.sm_asked.proofs as asked
