pub mod ReachableElementLemmas
pub mod SecondaryWeights
pub mod TertiaryWeights
pub mod PrimaryWeights
pub mod FormWeights
pub mod HandledLemmas
pub mod CountLemmas
pub mod SpecialBounds
pub mod NumberLists
pub mod TextSources
pub mod ElementHalves
pub mod TextMembers
pub mod TextTies
pub mod EachLevel
pub mod TextOrders
mod WorkedWeights
pub mod Computing
pub mod WorkedSettings
mod WorkedTextKeys
mod WorkedTextOrders
pub mod AppendLemmas
pub mod RestOrders
