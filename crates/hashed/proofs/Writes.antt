-- What is read from a cell, and what writes of cells leave.
use Rattle.std.proofs.Common.{◌≡◌, ℕ, zero, suc, ◌<◌, ◌≤◌, true, false, cond, ltb, ◌≢◌, List, [], ◌∷◌, length, get_or, set, Some, None, Option, sym, refl, ap, ◌∙◌, subst, ⊎_elim, arith, length-set, get_or-set_same}
use Rattle.std.specs.List.{slice_get}
use Rattle.std.proofs.lemmas.Option.{slice_get-get_or}
use Rattle.std.proofs.lemmas.Bool.{cases_eq, cases_Bool, ltb-true, lt-ltb, le-ltb}
use Rattle.hashed.specs.declared.cell.Cell.{Cell}
use Rattle.hashed.specs.declared.cell.Link.{Link}
use Rattle.hashed.specs.Cells.{target, next_in, first_in, entry_in, next_of, first_of, entry_of, Relinked}

-- ---- links

pub target_in : (n l x : ℕ) → target n l ≡ Some x → x < n
target_in n l x e =
    ⊎_elim
    (λ (t : ltb l n ≡ true). let s : target n l ≡ Some l = ap (λ b. cond b (Some l) None) t in let q : l ≡ x = cc in let h = ltb-true l n t in omega arith)
    (λ (f : ltb l n ≡ false). let s : target n l ≡ None = ap (λ b. cond b (Some l) None) f in absurd cc)
    (cases_Bool (ltb l n))

pub target_of : (n l x : ℕ) → l ≡ x → x < n → target n l ≡ Some x
target_of n l x e h = ap (λ b. cond b (Some l) None) (lt-ltb l n (omega arith)) ∙ ap Some e

pub target_none : (n l : ℕ) → n ≤ l → target n l ≡ None
target_none n l h = ap (λ b. cond b (Some l) None) (le-ltb l n h)

-- ---- what a read of a cell says

module _ {K V : Type 0} (n : ℕ) (cells : List (Cell K V)) (x : ℕ) (r : Cell K V) (h : x < length cells) (is : r ≡ get_or cells x r) where
  read_nth : slice_get cells x ≡ Some r
  read_nth = slice_get-get_or cells x r h ∙ ap Some (sym is)

  pub read_next : next_of n cells x ≡ target n r.next.0
  read_next = ap (next_in n) read_nth

  pub read_entry : entry_of cells x ≡ Some (r.key, r.value)
  read_entry = ap entry_in read_nth

-- the cell that a link leads to
pub reached : {K V : Type 0} (cells : List (Cell K V)) (l x : ℕ) (r : Cell K V) → target (length cells) l ≡ Some x → r ≡ get_or cells x r
    → (x < length cells) × (entry_of cells x ≡ Some (r.key, r.value)) × (next_of (length cells) cells x ≡ target (length cells) r.next.0)
reached cells l x r at is =
    let h = target_in (length cells) l x at in
    (h, read_entry (length cells) cells x r h is, read_next (length cells) cells x r h is)

-- ---- one write

nth_set_same : {X : Type 0} (xs : List X) (i : ℕ) (c : X) → i < length xs → slice_get (set xs i c) i ≡ Some c
nth_set_same xs i c h = slice_get-get_or (set xs i c) i c (simp length-set h) ∙ ap Some (get_or-set_same xs i c c h)

nth_set_other : {X : Type 0} (xs : List X) (i j : ℕ) (c : X) → j ≢ i → slice_get (set xs i c) j ≡ slice_get xs j
nth_set_other [] i j c h = refl
nth_set_other (x ∷ xs) zero zero c h = absurd (h refl)
nth_set_other (x ∷ xs) zero (suc j) c h = refl
nth_set_other (x ∷ xs) (suc i) zero c h = refl
nth_set_other (x ∷ xs) (suc i) (suc j) c h = nth_set_other xs i j c (λ e. h (ap suc e))

-- what the written cell shows, and what the others do
pub set_here : {X A : Type 0} (f : Option X → A) (xs : List X) (i : ℕ) (c : X) → i < length xs → f (slice_get (set xs i c) i) ≡ f (Some c)
set_here f xs i c h = ap f (nth_set_same xs i c h)

pub set_there : {X A : Type 0} (f : Option X → A) (xs : List X) (i : ℕ) (c : X) (z : ℕ) → z ≢ i → f (slice_get (set xs i c) z) ≡ f (slice_get xs z)
set_there f xs i c z ne = ap f (nth_set_other xs i z c ne)

-- a write that keeps what f reads keeps it everywhere
set_keeps : {X A : Type 0} (f : Option X → A) (xs : List X) (i : ℕ) (c d : X) → i < length xs → f (Some c) ≡ f (Some (get_or xs i d)) → (z : ℕ) → f (slice_get (set xs i c) z) ≡ f (slice_get xs z)
set_keeps f xs i c d h e z =
    ⊎_elim
    (λ (q : z ≡ i). subst (λ w. f (slice_get (set xs i c) w) ≡ f (slice_get xs w)) (sym q) (set_here f xs i c h ∙ e ∙ ap f (sym (slice_get-get_or xs i d h))))
    (λ (ne : z ≢ i). set_there f xs i c z ne)
    (cases_eq z i)

-- ---- the cell x, and the link to a place

module _ {K V : Type 0} (n : ℕ) (cells : List (Cell K V)) (b x : ℕ) (cell d : Cell K V) (to : Link) (hx : x < length cells)
    (first : (e : Cell K V) → cell.first ≡ (get_or cells x e).first) where
  abbrev one : List (Cell K V)
  one = set cells x cell

  firsts : (z : ℕ) → first_of n one z ≡ first_of n cells z
  firsts z = set_keeps (first_in n) cells x cell d hx (ap (λ (l : Link). target n l.0) (first d)) z

  abbrev with_first : List (Cell K V)
  with_first = set one b (record { key = (get_or one b d).key; value = (get_or one b d).value; first = to; next = (get_or one b d).next })

  pub relinked_first : b < length cells → Relinked n cells with_first b None x (target n cell.next.0) (cell.key, cell.value) (target n to.0)
  relinked_first hb =
      let h : b < length one = simp length-set hb in
      record {
        here = set_keeps entry_in one b _ d h refl x ∙ set_here entry_in cells x cell hx;
        elsewhere = λ z ne. set_keeps entry_in one b _ d h refl z ∙ set_there entry_in cells x cell z ne;
        onward = set_keeps (next_in n) one b _ d h refl x ∙ set_here (next_in n) cells x cell hx;
        links = (
          set_here (first_in n) one b _ h,
          λ c ne. set_there (first_in n) one b _ c ne ∙ firsts c,
          λ z ne. set_keeps (next_in n) one b _ d h refl z ∙ set_there (next_in n) cells x cell z ne,
        );
      }

  abbrev with_next : ℕ → List (Cell K V)
  with_next y = set one y (record { key = (get_or one y d).key; value = (get_or one y d).value; first = (get_or one y d).first; next = to })

  pub relinked_next : (y : ℕ) → y < length cells → y ≢ x → Relinked n cells (with_next y) b (Some y) x (target n cell.next.0) (cell.key, cell.value) (target n to.0)
  relinked_next y hy ny =
      let h : y < length one = simp length-set hy in
      record {
        here = set_keeps entry_in one y _ d h refl x ∙ set_here entry_in cells x cell hx;
        elsewhere = λ z ne. set_keeps entry_in one y _ d h refl z ∙ set_there entry_in cells x cell z ne;
        onward = set_there (next_in n) one y _ x (λ e. ny (sym e)) ∙ set_here (next_in n) cells x cell hx;
        links = (
          set_here (next_in n) one y _ h,
          λ c. set_keeps (first_in n) one y _ d h refl c ∙ firsts c,
          λ z ne nz. set_there (next_in n) one y _ z nz ∙ set_there (next_in n) cells x cell z ne,
        );
      }

-- the cell x holds another entry, and no link changes
pub record Rewritten {K V : Type 0} (n : ℕ) (cells cells' : List (Cell K V)) (x : ℕ) (e : K × V) : Type 0 where
  pub here : entry_of cells' x ≡ Some e
  pub elsewhere : (z : ℕ) → z ≢ x → entry_of cells' z ≡ entry_of cells z
  pub nexts : (z : ℕ) → next_of n cells' z ≡ next_of n cells z
  pub firsts : (z : ℕ) → first_of n cells' z ≡ first_of n cells z

-- another value in the cell x
pub rewritten : {K V : Type 0} (n : ℕ) (cells : List (Cell K V)) (x : ℕ) (d : Cell K V) (v : V) → x < length cells → (e : K × V) → entry_of cells x ≡ Some e
    → Rewritten n cells (set cells x (record { key = (get_or cells x d).key; value = v; first = (get_or cells x d).first; next = (get_or cells x d).next })) x (e.0, v)
rewritten {K} {V} n cells x d v h e is =
    let q : Some ((get_or cells x d).key, (get_or cells x d).value) ≡ Some e = sym (ap entry_in (slice_get-get_or cells x d h)) ∙ is in
    let p : ((get_or cells x d).key, (get_or cells x d).value) ≡ e = cc in
    record {
      here = set_here entry_in cells x _ h ∙ ap (λ (w : K × V). Some (w.0, v)) p;
      elsewhere = λ z ne. set_there entry_in cells x _ z ne;
      nexts = set_keeps (next_in n) cells x _ d h refl;
      firsts = set_keeps (first_in n) cells x _ d h refl;
    }
