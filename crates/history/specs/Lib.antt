-- Whole sequences of calls (demand 3): what they answer and leave (Calls), the reference model (Model), with what they
-- may start (Starts), what the proof needs of one call (Agrees) and that each kind of call has it (Changes, Reads,
-- Others), the theorem that they agree (History), all of demand 3 as one theorem (NoTrace), sales in a sequence
-- (Sales), what else follows (Corollaries), the theorem at work (Example).
pub mod Calls
pub mod Model
pub mod Agrees
pub mod Others
pub mod History
pub mod NoTrace
pub mod Sales
pub mod Example
