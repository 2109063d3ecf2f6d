-- The steps of a workload, and how many calls an empty store accepts.
use Rattle.std.proofs.Common.{◌≡◌, ℕ, ◌+◌, ◌-◌, ◌≤◌, min, cond, List, [], ◌∷◌, length, is_ok, Ok, Err, Result, refl, subst, ⊎_elim, arith}
use Rattle.std.specs.List.{insert}
use Rattle.std.proofs.lemmas.List.Edits.{length-insert}
use Rattle.std.proofs.lemmas.Bool.{cases_lt}
use Rattle.keys.proofs.Orders.{letters_order}
use Rattle.keys.specs.Letters.{letters_less}
use Rattle.keys.specs.declared.letters.LettersKey.{LettersKey}
use Rattle.chains.specs.Contents.{sequence, with_sequence, used, Ascending}
use Rattle.chains.specs.State.{put_outcome}
use Rattle.chains.specs.declared.refusal.Refusal.{Refusal}
use Rattle.chains.specs.declared.refusal.Refusal.TheVariants.{Full}
use Rattle.chains.proofs.Contents.{with_used, with_ascending}
use Rattle.chains.proofs.Outcomes.{put_done, put_full}
use Rattle.speed.specs.Workload.{Numbers, key_of, empty, accepted}

-- ---- how many numbers a store of 32,768 cells accepts

abbrev holding : List (LettersKey × List ℕ) → Numbers
holding c = record { contents = c; section = λ _. 0; room = λ _. 32768 }

accepted-all : (c : List (LettersKey × List ℕ)) (ns : List ℕ) → Ascending letters_less c → used (λ _. 0) c 0 ≤ 32768 → accepted (holding c) ns ≡ min (length ns) (32768 - used (λ _. 0) c 0)
accepted-all c [] a le = omega arith
accepted-all c (n ∷ ns) a le =
    let u = used (λ _. 0) c 0 in
    let k = key_of n in
    let xs = sequence letters_less c k in
    let vs = insert xs 0 0 in
    let c' = with_sequence letters_less c k vs in
    let P : Result (Unit {0}) Refusal × Numbers → Type 0 = λ q. cond (is_ok q.0) 1 0 + accepted q.1 ns ≡ min (length (n ∷ ns)) (32768 - u) in
    ⊎_elim
    (λ lt.
    let p : (Ok tt, holding c') ≡ put_outcome letters_less (holding c) k 0 0 = put_done letters_less (holding c) k 0 0 (holding c') (omega arith) lt refl in
    let w = with_used letters_order (λ _. 0) c k vs 0 a refl in
    let l = length-insert xs 0 0 (omega arith) in
    let ih = accepted-all c' ns (with_ascending letters_order c k vs a) (omega (arith, w, l)) in
    subst P p (omega (arith, ih, w, l)))
    (λ ge.
    let p : (Err Full, holding c) ≡ put_outcome letters_less (holding c) k 0 0 = put_full letters_less (holding c) k 0 0 (omega arith) ge in
    let ih = accepted-all c ns a le in
    subst P p (omega (arith, ih)))
    (cases_lt u 32768)

pub accepted-empty : (ks : List ℕ) → accepted empty ks ≡ min (length ks) 32768
accepted-empty ks = accepted-all [] ks tt (omega arith)
