mod Counting
mod Aborting
mod Singles
mod Shorter
mod Determined
