-- What holds at each point of interning an accepted forest. Enter leads into a forest, a record, a lambda's body and an
-- operand; Next leads past an operand, and to what has been read; Forced has the laws of arguments in force. Moves
-- is for Enter and Next. Assumes nothing.
pub mod Forced
pub mod Moves
pub mod Enter
pub mod Next
