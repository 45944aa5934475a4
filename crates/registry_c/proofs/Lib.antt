mod Nobody
mod Rooms
