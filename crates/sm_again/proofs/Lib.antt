mod MembersAgain
mod AstMerges
mod SaidMeant
mod NamespaceStates
mod NamespaceOnce
mod WrittenMerges
mod NamesFormed
pub mod MergedShapes
mod WrittenTexts
pub mod JsonGraphs
mod GraphNamed
pub mod GraphLoads
mod SameLoads
mod EnumTargets
mod WrittenUtf8
mod IdlUtf8
mod IdlLoads
