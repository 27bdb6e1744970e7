mod Judged
mod Taken
mod Standing
mod Moving
mod Below
