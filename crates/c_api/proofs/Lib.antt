-- Laws of what is handed back.
mod Handed
