-- In these files H is a history, R the clean one, e an entry and l that a history is legal; T are the targets of frames; x, y and z are deeds or
-- what was said, zs and ws what a frame spoke.
pub mod Agreements
pub mod Heard
pub mod Wanted
pub mod Schedules
