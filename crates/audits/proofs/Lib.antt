mod Lines
mod Log
mod States
mod Vouched
mod Writing
