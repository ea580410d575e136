mod Turns
mod Parts
mod Machines
mod Numbers
mod NeedLists
mod JobLists
mod ArcLists
mod Belongs
