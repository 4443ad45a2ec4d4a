-- A period, and what its line tells of its calls; the course of a session, from its input; what is written of it; a session, and
-- the run program, byte by byte.
pub mod Buffer
pub mod Lines
pub mod LineOne
pub mod Period
pub mod LastEvent
pub mod Outcomes
pub mod Text
pub mod Run
pub mod Session
pub mod Program
