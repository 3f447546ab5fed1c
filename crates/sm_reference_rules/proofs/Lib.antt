mod BodyReferences
mod FiniteFound
mod FiniteMoves
mod FiniteTold
mod MissingTargets
mod TargetKinds
mod UnusedShapes
