-- Two outcomes that both satisfy a public call's promise are the same: the answer, and every byte of the lent slice. Assumes
-- nothing.
use Rattle.std.specs.Prelude.{ℕ, ◌≡◌, List}
use Rattle.laws.specs.TestLaws.{sole}
use Rattle.board.specs.Power.{power_up}
use Rattle.board.specs.Promises.{BoardPromise}
use Rattle.board.proofs.SoLaws.{so_sole}
use Rattle.board.specs.declared.chips.Board.{Board}
use Rattle.board.specs.declared.event.BoardAnswer.{BoardAnswer}
use Rattle.board.specs.declared.power.Plan.{Plan}
use Rattle.board.specs.declared.power.PoweredBoard.{PoweredBoard}

module _ (serials xs : List ℕ) (b : Board) (k code : ℕ) where
  pub event_sole :
      (a c : BoardAnswer) (ys zs : List ℕ) → BoardPromise serials xs b k code a ys → BoardPromise serials xs b k code c zs
      → (a ≡ c) × (ys ≡ zs)
  event_sole a c ys zs p q = (
    λ i. record { refusal = sole p.0 q.0 i; so = so_sole a.so c.so (sole p.1 q.1) i; board = sole p.2 q.2 i },
    sole p.3 q.3,
  )

pub power_up_sole : (p : Plan) (xs : List ℕ) (a b : PoweredBoard) → a ≡ power_up p xs → b ≡ power_up p xs → a ≡ b
power_up_sole p xs a b = sole
