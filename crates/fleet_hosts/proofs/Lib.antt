mod Firsts
mod Summed
