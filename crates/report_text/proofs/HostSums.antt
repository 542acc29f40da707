-- Sums over hosts, with one host more.
use Rattle.std.proofs.Common.{◌≡◌, ℕ, ◌+◌, ◌<◌, List, length, take, get_or, refl, ap, ◌∙◌, arith}
use Rattle.std.proofs.lemmas.List.{take_more}
use Rattle.std.proofs.lemmas.List.Sums.{sum_by_push}
use Rattle.std.specs.Prelude.{sum_by}
use Rattle.report_text.specs.HostSums.{errors_added, errors_in, errors_of, over, plus, row_added, sum_of}
use Rattle.report_text.specs.declared.rows.HostRow.{HostRow}

module _ (hosts : List HostRow) (n : ℕ) (d : HostRow) (within : n < length hosts) where
  one_more : (number : HostRow → ℕ) → plus (over number (take n hosts)) (number (get_or hosts n d)) ≡ over number (take (n + 1) hosts)
  one_more number =
      let more : sum_by number (take (n + 1) hosts) ≡ sum_by number (take n hosts) + number (get_or hosts n d) =
      ap (sum_by number) (take_more hosts n d within) ∙ sum_by_push number (take n hosts) (get_or hosts n d) in
      omega (arith, more)

  pub sum_more : row_added (sum_of (take n hosts)) (get_or hosts n d) ≡ sum_of (take (n + 1) hosts)
  sum_more =
      rw (
        one_more (λ host. host.total.pages),
        one_more (λ host. host.total.zero),
        one_more (λ host. host.total.shared),
        one_more (λ host. host.total.frames),
        one_more (λ host. host.total.reclaimed),
        one_more (λ host. host.total.zero_reclaimed),
        one_more (λ host. host.total.between),
        one_more (λ host. host.total.parts.zeros),
        one_more (λ host. host.total.parts.between),
        one_more (λ host. host.total.parts.within),
      )
      refl

  pub errors_more : errors_added (errors_of (take n hosts)) (get_or hosts n d) ≡ errors_of (take (n + 1) hosts)
  errors_more =
      rw (
        one_more (λ host. (errors_in host).shared),
        one_more (λ host. (errors_in host).frames),
        one_more (λ host. (errors_in host).reclaimed),
        one_more (λ host. (errors_in host).between),
        one_more (λ host. (errors_in host).within),
      )
      refl
