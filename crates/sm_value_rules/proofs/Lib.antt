pub mod WrongBounds
mod EnumMembers
mod ValuesTaken
mod OtherNumbers
mod TableRows
mod TableTwins
mod SameFaults
mod CheckedShapes
mod CheckedMarks
mod NodesTold
mod DefaultsTold
mod UsedTraits
mod ValuesTold
