-- A type and a prefix of it in some bytes: what stands there. Words of laws, to which a view's bytes are led (`PlaceViews`);
-- no demand rests on them.
use Rattle.std.specs.Prelude.{List, ℕ}
use Rattle.stream.specs.Types.{Ty}
use Rattle.stream.specs.Prefixes.{Prefix, IsPrefix}
use Rattle.reading.specs.Places.{InputPlace}
use Rattle.reading.specs.TypeReads.{TypeIn}
use Rattle.reading.specs.SliceReads.{PrefixIn}
pub mod Laws

pub record InputAt (types slice : List ℕ) (input : InputPlace) (t : Ty) (p : Prefix) : Type 0 where
  pub type_in : TypeIn types input.ty t
  pub prefix_in : PrefixIn slice input.prefix p
  pub is_prefix : IsPrefix t p
