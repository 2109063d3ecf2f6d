-- What a buffer keeps of a line.
use Rattle.std.proofs.Common.{◌≡◌, ℕ, zero, suc, ◌+◌, ◌-◌, ◌<◌, ◌≤◌, ◌↔◌, List, [], ◌∷◌, ◌++◌, length, get_or, take, min, Ok, Err, Result, IsOk, OnOk, OnErr, sym, refl, ap, ◌∙◌, arith, append_assoc, append-nil, length-append, length-take}
use Rattle.std.proofs.Math.Seq.{take-append-add}
use Rattle.std.proofs.lemmas.List.{take_all, take_min, take_more}
use Rattle.std.proofs.lemmas.Result.{on_err_weaker}
use Rattle.lines.specs.Buffer.{kept}

-- a block, as far as there is room
pub filled : (line block : List ℕ) → length line ≤ 257 → line ++ take (min (257 - length line) (length block)) block ≡ kept (line ++ block)
filled line block h =
    ap (λ l. line ++ l) (take_min (257 - length line) block) ∙ sym (take-append-add line block (257 - length line))
    ∙ ap (λ n. take n (line ++ block)) {y = 257} (omega arith)

pub within : (line block : List ℕ) → length line ≤ 257 → length (line ++ take (min (257 - length line) (length block)) block) ≤ 257
within line block h = omega (arith, length-append {A = ℕ}, length-take {A = ℕ})

-- a byte more, which is taken where there is room
pub pushed : {E : Type 0} (r : Result (Unit {0}) E) (line new : List ℕ) (b : ℕ) → length line ≤ 257 → (IsOk r ↔ (length line < 257)) → OnOk r (new ≡ line ++ b ∷ []) → OnErr r (new ≡ line) → OnErr r (length line ≡ 257) → new ≡ kept (line ++ b ∷ [])
pushed (Ok x) line new b h room ok err full =
    ok ∙ ap (λ n. line ++ take n (b ∷ [])) {x = 1} {y = min (257 - length line) 1} (omega (arith, room.0 refl)) ∙ filled line (b ∷ []) h
pushed (Err e) line new b h room ok err full =
    err ∙ sym (append-nil line) ∙ ap (λ n. line ++ take n (b ∷ [])) {x = 0} {y = min (257 - length line) 1} (omega (arith, full)) ∙ filled line (b ∷ []) h

-- what a byte that finds no room leaves
pub unmoved : {V E : Type 0} (r : Result (Unit {0}) E) (new old : V) (items : V → List ℕ) → OnErr r (new ≡ old) → OnErr r (items new ≡ items old)
unmoved r new old items h = on_err_weaker r (λ same. ap items same) h

-- what is cut off once is cut off for good
pub take-front : (m : ℕ) (xs ys : List ℕ) → take m (take m xs ++ ys) ≡ take m (xs ++ ys)
take-front zero xs ys = refl
take-front (suc m) [] ys = refl
take-front (suc m) (x ∷ xs) ys = ap (λ l. x ∷ l) (take-front m xs ys)

-- no byte yet of a block, and one byte more of it
pub start : (line : List ℕ) → length line ≤ 257 → line ≡ kept (line ++ [])
start line h = rw append-nil (sym (take_all 257 line h))

pub more : (line block : List ℕ) (i : ℕ) → i < length block → kept (kept (line ++ take i block) ++ get_or block i 0 ∷ []) ≡ kept (line ++ take (i + 1) block)
more line block i h =
    take-front 257 (line ++ take i block) _ ∙ ap kept (append_assoc line (take i block) _ ∙ ap (λ l. line ++ l) (sym (take_more block i 0 h)))
