-- What is kept while the calls of a list are made one after another. Assumes nothing.
use Rattle.std.proofs.Common.{◌≡◌, ℕ, ◌+◌, ◌≤◌, Vec, Global, List, [], ◌∷◌, ◌++◌, map, append_assoc, ◌∙◌, arith, ap}
use Rattle.std.specs.Vec.{vec_len, vec_capacity}
use Rattle.type3.specs.Kinds.{Meaning}
use Rattle.network.specs.declared.call.Answer.{Answer}
use Rattle.network.specs.Runs.{Turn, Ends, taken, after, history}
use Rattle.network.specs.Answers.{said_at, answered}

module _ {P Q : Type 0} (p : Meaning P) (q : Meaning Q) (start : Ends P Q) (all : List (Turn P Q)) (most : ℕ) where
  -- There is room for every answer. With those of the calls that are left, the answers so far are those of all, and the ends are those
  -- after all.
  pub record Kept (count : ℕ) (answers : Vec (Answer P Q) Global) (w : Ends P Q) (left : List (Turn P Q)) : Type 0 where
    pub count_is : vec_len answers ≡ count
    pub room : most ≤ vec_capacity answers
    pub answers_are : answers.items ++ map said_at (history p q w left) ≡ map said_at (history p q start all)
    pub ends_are : after p q w left ≡ after p q start all

  -- one call more
  pub goes_on : {count : ℕ} {answers : Vec (Answer P Q) Global} {w : Ends P Q} {left : List (Turn P Q)} → Kept count answers w left
      → (x : Turn P Q) (xs : List (Turn P Q)) → left ≡ x ∷ xs → (v : Ends P Q) → v ≡ taken p q w x → (a : Answer P Q) → a ≡ answered p q w x
      → (more : Vec (Answer P Q) Global) → more.items ≡ answers.items ++ (a ∷ []) → vec_len more ≡ vec_len answers + 1
      → vec_capacity answers ≤ vec_capacity more → Kept (count + 1) more v xs
  goes_on {w = w} kept x xs first v next a answer more items len capacity = record {
    count_is = len ∙ ap (λ n. n + 1) kept.count_is;
    room = let room = kept.room in omega arith;
    answers_are = rw (items, next, answer) (append_assoc _ (answered p q w x ∷ []) _) ∙ (rw first at kept.answers_are);
    ends_are = rw next (rw first at kept.ends_are);
  }
