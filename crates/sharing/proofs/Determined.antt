-- What sharing leaves is determined. Assumes nothing.
use Rattle.std.proofs.Common.{ℕ, ◌<◌, ◌≡◌, sym, ◌∙◌, List, arith, get_or, ext_get_or}
use Rattle.bubble.proofs.Pigeonhole.{place_of}
use Rattle.bubble.proofs.Reflect.{decided, decides_member}
use Rattle.sharing.specs.Sharing.{onward, Shared}
use Rattle.sharing.proofs.ShareLaws.{length_onward}

module _ {counts next out out₁ out₂ : List ℕ} {s k d : ℕ} (a : Shared counts next out s k d k out₁) (b : Shared counts next out s k d k out₂) where
  same_count : (v : ℕ) → get_or out₁ v 0 ≡ get_or out₂ v 0
  same_count v =
      elim (decided (decides_member v (onward next s k))) [
        | yes m ↦ let (i, l, q) = place_of m in let inside : i < k = omega (arith, length_onward next s k) in rw q at (a.added i inside ∙ sym (b.added i inside))
        | no n ↦ a.elsewhere v n ∙ sym (b.elsewhere v n)
      ]

  pub shared_determined : out₁ ≡ out₂
  shared_determined = ext_get_or 0 out₁ out₂ (a.same_out ∙ sym b.same_out) (λ v l. same_count v)
