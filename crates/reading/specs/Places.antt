-- Where a type, a prefix, or both stand in some bytes: from `start` up to, not including, `end`. The code hands on views, which begin and end
-- with their bytes; the laws of trees that stand in longer ones speak of places.
use Rattle.std.specs.Prelude.{ℕ}

pub record TypePlace : Type 0 where
  pub start : ℕ
  pub end : ℕ

pub record PrefixPlace : Type 0 where
  pub start : ℕ
  pub end : ℕ

pub record InputPlace : Type 0 where
  pub ty : TypePlace
  pub prefix : PrefixPlace
