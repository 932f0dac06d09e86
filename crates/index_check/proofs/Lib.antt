-- Laws of lists with a fault, and of searches by `any`.
mod Faults
