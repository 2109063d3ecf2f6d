-- What blocks of an input bring to a line.
use Rattle.std.proofs.Common.{◌≡◌, ◌≢◌, ℕ, ◌+◌, ◌-◌, ◌<◌, ◌≤◌, Bool, ◌⊎◌, inl, inr, List, [], ◌∷◌, ◌++◌, All, length, get_or, take, None, Some, Ok, Result, Bor, IfSome, OnSome, nat_lt, Option, sym, refl, ap, subst, ◌∙◌, arith, append_assoc, append-nil, length-append, length-take, get_or-take, length-take-le}
use Rattle.std.specs.Io.BufRead.{first_piece, drop_through, strip_last, DropsThrough, FillKeeps, DropsConsumable}
use Rattle.std.specs.Io.{StartsWith}
use Rattle.std.specs.Io.KnownBytes.{Consumes, IsAtEnd, Keeps}
use Rattle.std.proofs.KnownBytes.{Consumes-trans}
use Rattle.std.proofs.BufReadLemmas.{take_through-append, drop_through-append, Consumes_shown}
use Rattle.std.proofs.Math.Seq.{take-append_seam}
use Rattle.std.proofs.lemmas.List.{take_more}
use Rattle.std.proofs.lemmas.List.Elements.{All-append, All-take, All-get_or, All-from_get_or}
use Rattle.std.proofs.lemmas.Bool.{cond-true, cond-false, and_from, and_right, lt-ltb, eq-eqb, ne_eqb}
use Rattle.std.proofs.lemmas.Bool.Decides.{nat_tests}
use Rattle.lines.specs.Buffer.{kept}
use Rattle.lines.specs.Position.{Absent}
use Rattle.lines.proofs.Kept.{take-front}

-- no byte is a line's end
abbrev pub NoEnd : List ℕ → Type 0
NoEnd bytes = All (λ b. b ≢ 10) bytes

-- a line is what stands before its end
last_byte : (line : List ℕ) → get_or (line ++ 10 ∷ []) (length line) 0 ≡ 10
last_byte [] = refl
last_byte (b ∷ line) = last_byte line

strip_end : (line : List ℕ) → strip_last 10 (line ++ 10 ∷ []) ≡ line
strip_end line =
    let all = line ++ 10 ∷ [] in
    let long : length all - 1 ≡ length line = omega (arith, length-append line (10 ∷ [])) in
    cond-true _ _ _ (and_from _ _ (lt-ltb 0 (length all) (omega (arith, length-append line (10 ∷ [])))) (eq-eqb _ _ (ap (λ n. get_or all n 0) long ∙ last_byte line)))
    ∙ ap (λ n. take n all) long ∙ take-append_seam line (10 ∷ [])

strip_open : (line : List ℕ) → NoEnd line → strip_last 10 line ≡ line
strip_open [] h = refl
strip_open (b ∷ line) h =
    cond-false _ _ _ (and_right _ _ (ne_eqb (get_or (b ∷ line) (length (b ∷ line) - 1) 0) 10 (All-get_or (λ b. b ≢ 10) (b ∷ line) (length (b ∷ line) - 1) 0 (omega arith) h)))

ended_piece : (line rest : List ℕ) → NoEnd line → first_piece 10 (line ++ 10 ∷ rest) ≡ line
ended_piece line rest h = ap (strip_last 10) (take_through-append 10 line (10 ∷ rest) h) ∙ strip_end line

open_piece : (line : List ℕ) → NoEnd line → first_piece 10 line ≡ line
open_piece line h =
    ap (first_piece 10) (sym (append-nil line)) ∙ ap (strip_last 10) (take_through-append 10 line [] h ∙ append-nil line) ∙ strip_open line h

-- a whole line was read, and its end, or the end of the input
ends_line : (a c : Option (List ℕ)) (line held : List ℕ) → NoEnd line → held ≡ kept line → Consumes a c (line ++ 10 ∷ []) → IfSome a (λ xs. held ≡ kept (first_piece 10 xs)) × DropsThrough a c 10
ends_line None c line held h k p = (tt, tt)
ends_line (Some xs) None line held h k p = absurd p
ends_line (Some xs) (Some ys) line held h k p =
    let all = p ∙ append_assoc line (10 ∷ []) ys in
    (k ∙ ap kept (sym (ap (first_piece 10) all ∙ ended_piece line ys h)), ap Some (sym (ap (drop_through 10) all ∙ drop_through-append 10 line (10 ∷ ys) h)))

ends_input : (a c : Option (List ℕ)) (line held : List ℕ) → NoEnd line → held ≡ kept line → Consumes a c line → OnSome a (IsAtEnd c) → IfSome a (λ xs. held ≡ kept (first_piece 10 xs)) × DropsThrough a c 10
ends_input None c line held h k p e = (tt, tt)
ends_input (Some xs) None line held h k p e = absurd p
ends_input (Some xs) (Some ys) line held h k p e =
    let all = p ∙ ap (λ l. line ++ l) e in
    (k ∙ ap kept (sym (ap (first_piece 10) (all ∙ append-nil line) ∙ open_piece line h)), ap Some (e ∙ sym (ap (drop_through 10) all ∙ drop_through-append 10 line [] h)))

-- a line is being read: done has been read of it, and the buffer holds what it keeps of that
pub record Reading (old new : Option (List ℕ)) (held : List ℕ) : Type 0 where
  pub done : List ℕ
  pub no_end : NoEnd done
  pub same : held ≡ kept done
  pub read : Consumes old new done

-- a part more of the line
module _ (a b c : Option (List ℕ)) (held new part : List ℕ) (r : Reading a b held) (h : NoEnd part) (e : new ≡ kept (held ++ part)) where
  whole : NoEnd (r.done ++ part)
  whole = All-append (λ b. b ≢ 10) r.done part r.no_end h

  same_whole : new ≡ kept (r.done ++ part)
  same_whole = e ∙ ap (λ l. kept (l ++ part)) r.same ∙ take-front 257 r.done part

  pub one_line : NoEnd new
  one_line = subst NoEnd (sym same_whole) (All-take (λ b. b ≢ 10) 257 (r.done ++ part) whole)

  pub goes_on : Consumes b c part → Reading a c new
  goes_on p = record { done = r.done ++ part; no_end = whole; same = same_whole; read = Consumes-trans a b c r.done part r.read p }

  pub ended : Consumes b c (part ++ 10 ∷ []) ⊎ (Consumes b c part × OnSome b (IsAtEnd c)) → IfSome a (λ xs. new ≡ kept (first_piece 10 xs)) × DropsThrough a c 10
  ended (inl p) =
      ends_line a c (r.done ++ part) new whole same_whole (subst (Consumes a c) (sym (append_assoc r.done part (10 ∷ []))) (Consumes-trans a b c r.done (part ++ 10 ∷ []) r.read p))
  ended (inr p) = ends_input a c (r.done ++ part) new whole same_whole (Consumes-trans a b c r.done part r.read p.0) (known a b r.read p.1)
    where
      known : (a b : Option (List ℕ)) → Consumes a b r.done → OnSome b (IsAtEnd c) → OnSome a (IsAtEnd c)
      known None b p e = tt
      known (Some xs) None p e = absurd p
      known (Some xs) (Some ys) p e = e

-- whether a byte is left, of the line that is held or of the input
same_sign : (m n : ℕ) → (0 < m → 0 < n) → (0 < n → 0 < m) → nat_lt 0 m ≡ nat_lt 0 n
same_sign m n h k = grind (arith, nat_tests)

pub found : (a b : Option (List ℕ)) (held : List ℕ) (t : Bool) → Reading a b held → IfSome b (λ ys. t ≡ nat_lt 0 (length (held ++ ys))) → IfSome a (λ xs. t ≡ nat_lt 0 (length xs))
found None b held t r h = tt
found (Some xs) None held t r h = absurd r.read
found (Some xs) (Some ys) held t r h =
    let all : length xs ≡ length r.done + length ys = ap length r.read ∙ length-append r.done ys in
    let some : length (held ++ ys) ≡ length (kept r.done) + length ys = length-append held ys ∙ ap (λ l. length l + length ys) r.same in
    h ∙ same_sign (length (held ++ ys)) (length xs) (λ p. omega (arith, length-take 257 r.done)) (λ p. omega (arith, length-take 257 r.done))

-- ---- a block

-- what stands before its first line's end
pub no_end_before : (block : List ℕ) (n : ℕ) → n ≤ length block → Absent 10 block n → NoEnd (take n block)
no_end_before block n l h =
    All-from_get_or (λ b. b ≢ 10) (take n block) 0 (λ k m. let i : k < n = omega (arith, length-take-le n block l) in rw get_or-take (h k i))

-- and that end
pub with_end : (block : List ℕ) (n : ℕ) → n < length block → get_or block n 0 ≡ 10 → take (n + 1) block ≡ take n block ++ 10 ∷ []
with_end block n h e = take_more block n 0 h ∙ ap (λ b. take n block ++ b ∷ []) e

-- an empty block is the end of the input
pub nothing_left : (a b : Option (List ℕ)) (n : ℕ) → n ≡ 0 → IfSome a (λ xs. n ≡ 0 → xs ≡ []) → Keeps a b → Consumes a b [] × OnSome a (IsAtEnd b)
nothing_left None b n z h k = (tt, tt)
nothing_left (Some xs) None n z h k = absurd k
nothing_left (Some xs) (Some ys) n z h k = (sym k, k ∙ h z)

-- the first bytes that a block showed were taken
pub taken : {E : Type 0} (a b c : Option (List ℕ)) (limit : Option ℕ) (r : Result (Bor (List ℕ)) E) (block : Bor (List ℕ)) (n amount : ℕ) → n ≡ amount → r ≡ Ok block → n ≤ length block.now
    → IfSome a (λ xs. StartsWith xs block.now) → IfSome a (λ xs. length block.now ≡ 0 → xs ≡ []) → FillKeeps a b limit r → DropsConsumable b c limit amount → Consumes a c (take n block.now)
taken a b c limit r block n amount s e h front end keeps drops =
    let filled = subst (FillKeeps a b limit) e keeps in
    (Consumes_shown a b c limit block.now n h front end filled.0 filled.1 (subst (DropsConsumable b c limit) (sym s) drops)).0
