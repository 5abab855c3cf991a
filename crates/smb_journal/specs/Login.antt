-- An authenticator that gives recorded answers first.
use Rattle.std.specs.Prelude.{ℕ, Bool, List, [], ◌∷◌}
use Rattle.smb_session.specs.Authenticator.{Answered, Meaning}

-- the first token, whether each session that is signed has to sign its requests, the recorded answers that are left, and
-- the authenticator that is asked behind them
pub record RecordedState (S : Type 0) : Type 0 where
  pub hello : List ℕ
  pub requires_signing : Bool
  pub given : List Answered
  pub behind : S

module _ {S : Type 0} (authenticator : Meaning S) where
  abbrev pub answer_from : List Answered → S → ℕ → List ℕ → Answered
  answer_from [] behind session token = authenticator.answer behind session token
  answer_from (answer ∷ given) behind session token = answer

  abbrev pub left_from : List Answered → RecordedState S → ℕ → List ℕ → RecordedState S
  left_from [] state session token = record state { behind = authenticator.next state.behind session token }
  left_from (answer ∷ given) state session token = record state { given = given }

  -- each step takes the next recorded answer, whoever asks; where none is left, the authenticator behind is asked
  abbrev pub by_record : Meaning (RecordedState S)
  by_record = record {
    hello = λ state. state.hello;
    requires_signing = λ state. state.requires_signing;
    answer = λ state session token. answer_from state.given state.behind session token;
    next = λ state session token. left_from state.given state session token;
  }
