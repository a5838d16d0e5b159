-- The law of the search for a character: a character in front is the first of all, and the last only where none is
-- behind it, so the law follows by going through the host. Assumes nothing.
use Prim.Native.Nat.{ℕ, zero, suc, ◌+◌, ◌-◌, ◌≤◌, ◌<◌}
use mathlib.Core.Path.{◌≡◌, refl, sym, ap, ◌∙◌}
use mathlib.Core.Bool.{Bool, true, false, cond, true≢false}
use mathlib.Core.List.{List, [], ◌∷◌}
use native.Mathlib.Omega.{arith}
use lib.ListN.{length, get_or}
use Rattle.strlib.proofs.Refusing.{outcome_gave}
use Rattle.strlib.specs.Pointer.{text_of}
use Rattle.strlib.specs.Refusal.{Sought, nowhere, at}
use Rattle.charset.specs.Nearest.{TabledAt, precedes, Nearest, Untabled, FindLaw, FindLaws}
use Rattle.charset.specs.Rule.{or_else, chosen, found_at, found_from, set_refusal, find_rule}
use Rattle.charset.specs.Sets.{mask_fits, in_tables}
use Rattle.charset.specs.declared.CharAt.{CharAt}
use Rattle.charset.proofs.Answering.{set_passed}
use Rattle.charset.proofs.Bitwise.{tabled_bits}

module _ (block : List ℕ) (mask : ℕ) where
  -- the character with o others before it is in a masked table
  abbrev InTable : List ℕ → ℕ → Type 0
  InTable xs o = (o < length xs) × (in_tables block mask (get_or xs o 0) ≡ true)

  record Best-at (last : Bool) (p : ℕ) (xs : List ℕ) (x : CharAt) : Type 0 where
    pub o : ℕ
    pub place : x.position ≡ p + o
    pub code : x.code ≡ get_or xs o 0
    pub tabled : InTable xs o
    pub nearest : (n : ℕ) → InTable xs n → precedes last o n

  abbrev Best : Bool → ℕ → List ℕ → Sought CharAt → Type 0
  Best last p xs nowhere = (n : ℕ) → InTable xs n → ⊥
  Best last p xs (at x) = Best-at last p xs x

  -- the character in front
  abbrev front : ℕ → ℕ → CharAt
  front p x = record { position = p; code = x }

  shut : (last : Bool) (p x : ℕ) (xs : List ℕ) → in_tables block mask x ≡ false → (r : Sought CharAt) → Best last (suc p) xs r → Best last p (x ∷ xs) r
  shut last p x xs e nowhere b = go
    where
      go : (n : ℕ) → InTable (x ∷ xs) n → ⊥
      go zero t = true≢false (sym t.1 ∙ e)
      go (suc n) t = b n (omega arith, t.1)
  shut last p x xs e (at y) b =
      record {
        o = suc b.o;
        place = omega (arith, b.place);
        code = b.code;
        tabled = (omega (arith, b.tabled.0), b.tabled.1);
        nearest = go last b.nearest;
      }
    where
      go : (l : Bool) → ((n : ℕ) → InTable xs n → precedes l b.o n) → (n : ℕ) → InTable (x ∷ xs) n → precedes l (suc b.o) n
      go l f zero t = absurd (true≢false (sym t.1 ∙ e))
      go false f (suc n) t = omega (arith, f n (omega arith, t.1))
      go true f (suc n) t = omega (arith, f n (omega arith, t.1))

  first_open : (p x : ℕ) (xs : List ℕ) → in_tables block mask x ≡ true → Best false p (x ∷ xs) (at (front p x))
  first_open p x xs e = record { o = 0; place = omega arith; code = refl; tabled = (omega arith, e); nearest = λ n t. omega arith }

  last_open : (p x : ℕ) (xs : List ℕ) → in_tables block mask x ≡ true → (r : Sought CharAt) → Best true (suc p) xs r → Best true p (x ∷ xs) (or_else r (at (front p x)))
  unfolding or_else
  last_open p x xs e nowhere b = record { o = 0; place = omega arith; code = refl; tabled = (omega arith, e); nearest = go }
    where
      go : (n : ℕ) → InTable (x ∷ xs) n → n ≤ 0
      go zero t = omega arith
      go (suc n) t = absurd (b n (omega arith, t.1))
  last_open p x xs e (at y) b =
      record {
        o = suc b.o;
        place = omega (arith, b.place);
        code = b.code;
        tabled = (omega (arith, b.tabled.0), b.tabled.1);
        nearest = go;
      }
    where
      go : (n : ℕ) → InTable (x ∷ xs) n → n ≤ suc b.o
      go zero t = omega arith
      go (suc n) t = omega (arith, b.nearest n (omega arith, t.1))

  best_cons : (last : Bool) (p x : ℕ) (xs : List ℕ) (t : Bool) → in_tables block mask x ≡ t → (r : Sought CharAt) → Best last (suc p) xs r
      → Best last p (x ∷ xs) (chosen last (cond t (at (front p x)) nowhere) r)
  unfolding chosen or_else
  best_cons false p x xs true e r b = first_open p x xs e
  best_cons true p x xs true e r b = last_open p x xs e r b
  best_cons false p x xs false e r b = shut false p x xs e r b
  best_cons true p x xs false e nowhere b = shut true p x xs e nowhere b
  best_cons true p x xs false e (at y) b = shut true p x xs e (at y) b

  best : (last : Bool) (p : ℕ) (xs : List ℕ) → Best last p xs (found_from last block mask p xs)
  unfolding found_from found_at
  best last p [] = λ n t. omega arith
  best last p (x ∷ xs) = best_cons last p x xs (in_tables block mask x) refl (found_from last block mask (suc p) xs) (best last (suc p) xs)

  -- ---- in the paper's words, counted from 1

  module _ (fits : mask_fits mask ≡ true) (last : Bool) (host : List ℕ) where
    standing : {q : ℕ} → TabledAt block mask host q → InTable host (q - 1)
    standing {q} t = (omega (arith, t.from, t.to), (tabled_bits block mask (get_or host (q - 1) 0) fits).tabled_is t.tabled)

    nearest : (x : CharAt) → Best-at last 1 host x → Nearest last block mask host x
    nearest x b =
        let e : x.position - 1 ≡ b.o = omega (arith, b.place) in
        record {
          tabled =
              record {
                from = omega (arith, b.place);
                to = omega (arith, b.place, b.tabled.0);
                tabled = rw e ((tabled_bits block mask (get_or host b.o 0) fits).is_tabled b.tabled.1);
              };
          code = rw e b.code;
          nearest = λ q t. go last b.nearest q t;
        }
      where
        go : (l : Bool) → ((n : ℕ) → InTable host n → precedes l b.o n) → (q : ℕ) → TabledAt block mask host q → precedes l x.position q
        go false f q t = omega (arith, f (q - 1) (standing t), b.place, t.from)
        go true f q t = omega (arith, f (q - 1) (standing t), b.place, t.from)

    one : (x y : CharAt) → Nearest last block mask host x → Nearest last block mask host y → x ≡ y
    one x y a b =
        let p : x.position ≡ y.position = go last (a.nearest y.position b.tabled) (b.nearest x.position a.tabled) in
        let c : x.code ≡ y.code = a.code ∙ rw p (sym b.code) in
        rw (p, c)
      where
        go : (l : Bool) → precedes l x.position y.position → precedes l y.position x.position → x.position ≡ y.position
        go false f g = omega arith
        go true f g = omega arith

    law_of : FindLaw last block mask host (found_from last block mask 1 host)
    law_of =
        record {
          found_is = λ x q. nearest x (rw q at (best last 1 host));
          is_found = λ x a. is_found x a (found_from last block mask 1 host) (best last 1 host);
          nothing_is = λ e q t. nowhere_is (found_from last block mask 1 host) e (best last 1 host) t;
          is_nothing = λ n. is_nothing n (found_from last block mask 1 host) (best last 1 host);
        }
      where
        is_found : (x : CharAt) → Nearest last block mask host x → (r : Sought CharAt) → Best last 1 host r → r ≡ at x
        is_found x a nowhere b = absurd (b (x.position - 1) (standing a.tabled))
        is_found x a (at y) b = ap at (one y x (nearest y b) a)

        nowhere_is : (r : Sought CharAt) → r ≡ nowhere → Best last 1 host r → {q : ℕ} → TabledAt block mask host q → ⊥
        nowhere_is nowhere e b {q} t = b (q - 1) (standing t)
        nowhere_is (at y) e b t = let z : ◌≡◌ {A = ℕ} 0 1 = cc in absurd (omega arith)

        is_nothing : Untabled block mask host → (r : Sought CharAt) → Best last 1 host r → r ≡ nowhere
        is_nothing n nowhere b = refl
        is_nothing n (at y) b = absurd (n y.position (nearest y b).tabled)

pub find_law : FindLaws
unfolding find_rule
find_law last s host block mask a e =
    let g = outcome_gave (set_refusal s host block mask) (found_from last block mask 1 (text_of s host)) a e in
    rw g.1 at (law_of block mask (set_passed s host block mask g.0).tables last (text_of s host))
