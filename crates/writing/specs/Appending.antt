-- What the writers promise that may have no room: contracts inside the library, which no demand rests on.
use Rattle.std.specs.Prelude.{◌≡◌, List, ◌++◌, ℕ, ◌+◌, ◌-◌, ◌≤◌, length}
use Rattle.stream.specs.Buffers.{at_front}
pub mod Laws

-- `bytes` have been written at the front of `lent`, which is `now` by now, if they have room there.
pub record Holds (bytes lent now : List ℕ) : Type 0 where
  pub long : length now ≡ length lent
  pub in_front : length bytes ≤ length lent → now ≡ at_front bytes lent

-- `source` is written behind the first `written` bytes.
pub record Appends (source : List ℕ) (written : ℕ) (now now_after : List ℕ) (end : ℕ) : Type 0 where
  pub ends : end ≡ written + length source
  pub long : length now_after ≡ length now
  pub each : (bytes lent : List ℕ) → length bytes ≡ written → Holds bytes lent now → Holds (bytes ++ source) lent now_after

-- A part of some bytes is written behind so many others that all of them can be counted.
pub record PartDue (source : List ℕ) (from to written : ℕ) : Type 0 where
  pub forward : from ≤ to
  pub inside : to ≤ length source
  pub few : written + (to - from) ≤ 65535

-- `start` is where the part behind `written` bytes starts, or the end if they have no room.
pub record Within (written room start : ℕ) : Type 0 where
  pub inside : start ≤ room
  pub behind : written ≤ room → start ≡ written
