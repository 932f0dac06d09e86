-- Laws of the writer's code: the bytes of a text part by part, how many they are, what the loops have written, and the answers.
mod Depths
mod Bytes
mod TextLength
mod Loops
mod Whole
