mod OldRight
mod Left
mod Uncut
mod Parted
