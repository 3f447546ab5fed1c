pub mod RowsAlike
pub mod OnePatterns
pub mod OneWay
pub mod OneTable
pub mod LookedUp
pub mod ReachedNumbers
mod Differing
mod NamesBehind
pub mod SoundTests
mod SoundShapes
mod EmptyNodes
mod TabledNumbers
pub mod TabledShapes
mod TabledMembers
mod RowsSay
mod MembersSay
mod CarriedPatterns
mod PatternsPut
mod TextsPlaced
mod TextsStored
pub mod FirstWays
mod MarksTaken
mod WalkSteps
mod WalkTurns
mod StepsFound
mod UnservedTold
mod MemberHomes
mod RowSearch
mod Blocks
mod ReadyRows
pub mod OrderedMembers
mod RowsPut
mod ValuesShared
mod MemberNames
mod ShapeRows
mod ShapedTables
mod MadeTables
mod ReadyMarks
mod CompiledShapes
mod MarkedTables
mod CarriedSets
mod CompiledRoots
mod CompiledSome
pub mod NumbersOrdered
mod RowsThere
pub mod KeptIds
mod SomePatterns
pub mod SomeWay
pub mod SomeRows
pub mod SomeTable
