-- What walks that lend values leave, and closures that write.
pub mod CallableInTurn
pub mod Counting
pub mod EachWritten
pub mod LentPairs
pub mod OnceWritten
pub mod PairWritten
pub mod WrittenInTurn
pub mod WrittenWhere
