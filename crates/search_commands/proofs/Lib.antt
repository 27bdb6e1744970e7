mod Bounding
mod OnePart
mod Pieces
mod Printed
mod Passed
mod BoundDue
