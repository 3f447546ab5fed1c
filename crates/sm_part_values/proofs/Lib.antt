pub mod TextsJoined
pub mod EntriesJoined
pub mod KeysGrouped
pub mod GroupsJoined
