-- What the functions inside the crate promise one another. Assumes nothing.
use Rattle.std.specs.Prelude.{ℕ, ◌+◌, ◌≤◌, ◌≡◌, Bool, true, cond, List, [], ◌∷◌, ◌++◌, eqb, length, take, drop}
use Rattle.number.specs.Limits.{in_range}
use Rattle.strlib.specs.Refusal.{Outcome, refused, gives}
use Rattle.desk.specs.declared.cue.Cue.{Cue}
use Rattle.buffer.specs.Buffer.{grown}
use Rattle.answers.specs.Text.{answer_text}
use Rattle.answers.specs.Pieces.{counted, good_of, goods, answers_text, ended, left, kept_in}
use Rattle.answers.specs.declared.lines.State.{State}

-- a gain that can be written
unfoldable pub writable : Outcome Cue → Bool
writable (gives c) = in_range c.gain
writable (refused k) = true

-- a line was answered, with a
pub record Answered (s : State) (o : List ℕ) (a : Outcome Cue) (r : State) (o' : List ℕ) : Type 0 where
  pub text : (r.out, o') ≡ grown o s.out (answer_text (counted (s.lines + 1)) a)
  pub lines : r.lines ≡ counted (s.lines + 1)
  pub ok : r.ok ≡ counted (s.ok + good_of a)
  pub held : r.held ≡ 0

-- the room for what is held, and honest counts
pub record Ready (hold out : List ℕ) (s : State) : Type 0 where
  pub size : length hold ≡ 65537
  pub held : s.held ≤ length hold
  pub inside : s.out ≤ length out
  pub lines : s.lines ≡ counted s.lines
  pub ok : s.ok ≡ counted s.ok

-- the lines that end, what is left, and what is held of it, where x follows p and is a whole line or not
unfoldable pub ended_by : Bool → List ℕ → List ℕ → List (List ℕ)
ended_by full p x = cond full ((p ++ x) ∷ []) []

unfoldable pub left_by : Bool → List ℕ → List ℕ → List ℕ
left_by full p x = cond full [] (p ++ x)

unfoldable pub kept_by : Bool → ℕ → List ℕ → List ℕ → ℕ × List ℕ
kept_by full k h x = cond full (0, cond (eqb k 0) h (grown h k x).1) (grown h k x)

-- from a state s the lines e were answered
pub record Counted (s : State) (o : List ℕ) (e : List (List ℕ)) (r : State) (o' : List ℕ) : Type 0 where
  pub text : (r.out, o') ≡ grown o s.out (answers_text s.lines e)
  pub lines : r.lines ≡ counted (s.lines + length e)
  pub ok : r.ok ≡ counted (s.ok + goods e)

-- a line, or the start of one, was taken
pub record Taken (s : State) (h o : List ℕ) (full : Bool) (x : List ℕ) (r : State) (h' o' : List ℕ) : Type 0 where
  pub counts : Counted s o (ended_by full (take s.held h) x) r o'
  pub kept : (r.held, h') ≡ kept_by full s.held h x

-- the first `at` bytes of a piece were gone through, up to a line's end
pub record Walked (s : State) (h o part : List ℕ) (at : ℕ) (r : State) (h' o' : List ℕ) : Type 0 where
  pub counts : Counted s o (ended (take s.held h) (take at part)) r o'
  pub holds : take r.held h' ≡ take (length h) (left (take s.held h) (take at part))
  pub size : length h' ≡ length h
  pub inside : r.held ≤ length h'
  pub rest : kept_in s.held h [] part ≡ kept_in r.held h' [] (drop at part)

-- a piece was gone through
pub record Fed (s : State) (h o part : List ℕ) (r : State) (h' o' : List ℕ) : Type 0 where
  pub counts : Counted s o (ended (take s.held h) part) r o'
  pub kept : (r.held, h') ≡ kept_in s.held h [] part
