-- The manual's translated comparisons, W4's edges, and splits and sums at the edges. Assumes nothing.
use Rattle.std.specs.Prelude.{◌≡◌, refl, true, false, [], ◌∷◌, pos, negsuc}
use Rattle.strlib.specs.Quoted.{bytes}
use Rattle.compare.specs.Order.{order_z, order_n, sign_of}
use Rattle.compare.specs.Compare.{holds, pairs, length_decides, translated, order_at, unequal_from, decided, decision, comparison}

pub record Examples : Type 0 where
  -- the manual's calls 1300 and 1400: a real blank is translated, 32 + 16 being '0', the pad is not
  pub real_blank : comparison (bytes "ABCD0") (bytes "1234 ") 0 0 (pos 16) ≡ record { yes = true; sign = pos 0; split = 0 }
  pub pad_blank : comparison (bytes "ABCD0") (bytes "1234") 0 0 (pos 16) ≡ record { yes = false; sign = pos 1; split = 5 }
  -- the same two the other way round
  pub real_blank_turned : comparison (bytes "1234 ") (bytes "ABCD0") 0 0 (negsuc 15) ≡ record { yes = true; sign = pos 0; split = 0 }
  pub pad_blank_turned : comparison (bytes "1234") (bytes "ABCD0") 0 0 (negsuc 15) ≡ record { yes = false; sign = negsuc 0; split = 5 }
  -- string 2 past string 1's end: 31 + 1 would be a blank, 32 is one
  pub tail : comparison [] (31 ∷ []) 0 0 (pos 1) ≡ record { yes = false; sign = negsuc 0; split = 1 }
  pub tail_blank : comparison [] (bytes " ") 0 0 (pos 5) ≡ record { yes = true; sign = negsuc 0; split = 0 }
  -- and a real blank there is no more translated than the pad
  pub blank_behind : comparison (bytes "A") (bytes "1 ") 0 0 (pos 16) ≡ record { yes = true; sign = negsuc 0; split = 0 }
  -- the shorter string by its length, not by its trimmed text, by which byte 16 would not be translated to a blank
  pub blank_within : comparison (bytes "A ") (49 ∷ 16 ∷ []) 0 0 (pos 16) ≡ record { yes = true; sign = pos 0; split = 0 }
  -- in padded style the split may lie past the shorter length
  pub past_shorter : comparison (bytes "ab") (bytes "abc") 5 0 (pos 0) ≡ record { yes = true; sign = negsuc 0; split = 3 }
  -- a sum under 0 is less than any character
  pub under_zero : comparison (0 ∷ []) (0 ∷ []) 4 0 (negsuc 126) ≡ record { yes = true; sign = pos 0; split = 1 }

pub examples : Examples
unfolding holds pairs length_decides translated order_at unequal_from decided decision comparison order_z order_n sign_of
examples =
    record {
      real_blank = refl;
      pad_blank = refl;
      real_blank_turned = refl;
      pad_blank_turned = refl;
      tail = refl;
      tail_blank = refl;
      blank_behind = refl;
      blank_within = refl;
      past_shorter = refl;
      under_zero = refl;
    }
