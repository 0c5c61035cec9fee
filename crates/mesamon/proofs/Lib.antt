mod Answered
mod Ended
mod ReadFiles
