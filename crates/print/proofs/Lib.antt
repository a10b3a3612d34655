-- The laws of printed lines. For users of the crate:
--     Writing     parts written one after the other: join
--     Digits      how long a line is: answer-length, span-length, diff-length, label-length; how many digits a number has: width-bound, width-holds
--     Distinct    different rows, and different answers, have different lines: span_same, answer-same, answers-same
pub mod Digits
pub mod Distinct
pub mod HexDigits
pub mod Lanes
pub mod Writing
