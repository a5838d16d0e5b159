-- What a search for a character answers, in the words of 01, "Character sets": the first or the last host character in
-- a masked table, and nothing exactly where there is none. Assumes nothing.
use Rattle.std.specs.Prelude.{ℕ, ◌-◌, ◌≤◌, ◌≡◌, Bool, true, false, List, length, get_or}
use Rattle.strlib.specs.Pointer.{text_of}
use Rattle.strlib.specs.Refusal.{gives, Sought, nowhere, at}
use Rattle.strlib.specs.declared.StrPtr.{StrPtr}
use Rattle.charset.specs.Bits.{Tabled}
use Rattle.charset.specs.Rule.{find_rule}
use Rattle.charset.specs.declared.CharAt.{CharAt}

-- the host character at position p is in a masked table
pub record TabledAt (block : List ℕ) (mask : ℕ) (host : List ℕ) (p : ℕ) : Type 0 where
  pub from : 1 ≤ p
  pub to : p ≤ length host
  pub tabled : Tabled block mask (get_or host (p - 1) 0)

-- position p is before q or the same (first), or behind q or the same (last)
abbrev pub precedes : Bool → ℕ → ℕ → Type 0
precedes false p q = p ≤ q
precedes true p q = q ≤ p

-- x is the answer
pub record Nearest (last : Bool) (block : List ℕ) (mask : ℕ) (host : List ℕ) (x : CharAt) : Type 0 where
  pub tabled : TabledAt block mask host x.position
  pub code : x.code ≡ get_or host (x.position - 1) 0
  pub nearest : (q : ℕ) → TabledAt block mask host q → precedes last x.position q

-- no host character is in a masked table
abbrev pub Untabled : List ℕ → ℕ → List ℕ → Type 0
Untabled block mask host = (q : ℕ) → TabledAt block mask host q → ⊥

-- the law of an answer a, each case both ways
pub record FindLaw (last : Bool) (block : List ℕ) (mask : ℕ) (host : List ℕ) (a : Sought CharAt) : Type 0 where
  pub found_is : (x : CharAt) → a ≡ at x → Nearest last block mask host x
  pub is_found : (x : CharAt) → Nearest last block mask host x → a ≡ at x
  pub nothing_is : a ≡ nowhere → Untabled block mask host
  pub is_nothing : Untabled block mask host → a ≡ nowhere

-- of any call that is not refused
abbrev pub FindLaws : Type 0
FindLaws =
    (last : Bool) (s : List ℕ) (host : StrPtr) (block : List ℕ) (mask : ℕ) (a : Sought CharAt)
    → find_rule last s host block mask ≡ gives a
    → FindLaw last block mask (text_of s host) a
