-- The loop that gathers bytes, one turn after another.
use Rattle.std.proofs.Common.{◌≡◌, ℕ, suc, ◌+◌, ◌*◌, ◌^◌, ◌<◌, List, get_or, drop, add-zero, pow-suc, add-one, arith}
use native.Mathlib.Nat.{pow-le-pow_right}
use Rattle.std.proofs.lemmas.List.{get_or-drop, drop-drop}
use Rattle.keys.specs.Gather.{gathered}

-- before the eighth turn the number has room for one byte more
pub room : (n i : ℕ) → i < 8 → n < 256 ^ i → n * 256 + 255 < 2 ^ 64
room n i h k = omega (arith, pow-suc 256 i, pow-le-pow_right {n = 256} (omega arith) {i = suc i} {j = 8} (omega arith))

-- after i turns: i bytes are gathered, and the rest is what follows them
pub record Turns (bytes : List ℕ) (i number : ℕ) (rest : List ℕ) : Type 0 where
  pub value : number ≡ gathered i bytes
  pub small : number < 256 ^ i
  pub left : rest ≡ drop i bytes

pub one_more : (bytes : List ℕ) (i number first : ℕ) (rest after : List ℕ) → Turns bytes i number rest → first < 256 → first ≡ get_or rest 0 0 → after ≡ drop 1 rest
    → Turns bytes (i + 1) (number * 256 + first) after
one_more bytes i number first rest after s h f m =
    let is : get_or rest 0 0 ≡ get_or bytes i 0 = rw (s.left, get_or-drop, add-zero) in
    rw add-one record {
      value = omega arith;
      small = omega (arith, pow-suc 256 i);
      left = rw (m, s.left, drop-drop, add-one);
    }
