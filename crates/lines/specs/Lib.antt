-- What the contracts of `lines` cite besides `grammar`, and why the console answers the lines of its input. To be
-- believed: the record `Buffers`.
pub mod Buffer
pub mod Stream
