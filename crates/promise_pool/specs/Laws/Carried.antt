-- The joint and the common space of two lists of rows depend on the two spans alone; no part of the meaning.
--   joint-carried   == the joint space of two lists is that of two lists with the same spans
--   common-carried  == so is the common space
-- Assumes nothing.
use Rattle.std.specs.Prelude.{List, ℕ}
use Rattle.linear.specs.Span.{SameSpan}
use Rattle.spaces.specs.Spaces.{Within, JointSpace, CommonSpace}

module _ (q n : ℕ) (us vs us' vs' : List (List ℕ)) (su : SameSpan q n us us') (sv : SameSpan q n vs vs') (d : ℕ) (m : List ℕ) where
  pub joint-carried : JointSpace q n us vs d m → JointSpace q n us' vs' d m
  unfolding SameSpan Within
  joint-carried J =
      record {
        reduced = J.reduced;
        first = λ v s. J.first v ((su v).1 s);
        second = λ v s. J.second v ((sv v).1 s);
        smallest = λ ws hw first second. J.smallest ws hw (λ v s. first v ((su v).0 s)) (λ v s. second v ((sv v).0 s));
      }

  pub common-carried : CommonSpace q n us vs d m → CommonSpace q n us' vs' d m
  unfolding SameSpan
  common-carried C =
      record {
        reduced = C.reduced;
        both = λ v. (
          λ s. let x = (C.both v).0 s in ((su v).0 x.0, (sv v).0 x.1),
          λ s. (C.both v).1 ((su v).1 s.0, (sv v).1 s.1),
        );
      }
