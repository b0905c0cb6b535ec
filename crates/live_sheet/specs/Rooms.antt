-- Room for what closing writes.
use Rattle.std.specs.Prelude.{◌≡◌, ◌≤◌, ℕ, [], vec_capacity}
use Rattle.live_sheet.specs.declared.room.Room.{Room}

-- nothing is listed yet, and there is room for so many values and so many seats
pub record IsRoomFor (cells clients : ℕ) (room : Room) : Type 0 where
  pub no_values : room.values.items ≡ []
  pub values : cells ≤ vec_capacity room.values
  pub no_seats : room.seats.items ≡ []
  pub seats : clients ≤ vec_capacity room.seats
