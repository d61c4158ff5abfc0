-- Bytes that are one prefix of a type and no more: which prefix they hold.
use Rattle.std.specs.Prelude.{◌≡◌, true, List, [], ℕ}
use Rattle.std.proofs.Common.{sym, ap}
use Rattle.stream.specs.Types.{Ty, Small}
use Rattle.stream.specs.Prefixes.{Prefix, nothing, IsPrefix}
use Rattle.stream.specs.Prefixes.Functions.{fits}
use Rattle.stream.specs.Reading.{found}
use Rattle.stream.specs.SliceFiles.{prefix_bytes, prefix_of}
use Rattle.stream.proofs.Prefixes.Fits.{fits-complete}
use Rattle.stream.proofs.SliceFiles.Laws.{prefix_short, read_prefix_reads}

-- These bytes are those of the prefix p of t.
pub record Holds (t : Ty) (s : List ℕ) (p : Prefix) : Type 0 where
  pub bytes : s ≡ prefix_bytes p []
  pub is : IsPrefix t p
  pub small : Small t

module _ {t : Ty} {s : List ℕ} {p : Prefix} (h : Holds t s p) where
  pub has_prefix : prefix_of t s ≡ p
  unfolding prefix_of
  has_prefix = rw h.bytes (ap (found nothing) (read_prefix_reads [] h.is (prefix_short h.is h.small)))

  pub is_whole : prefix_bytes (prefix_of t s) [] ≡ s
  is_whole = rw has_prefix (sym h.bytes)

  pub is_fit : fits t (prefix_of t s) ≡ true
  is_fit = rw has_prefix (fits-complete h.is)
