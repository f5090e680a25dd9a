-- `sale::open_at` meets its contract: 4, then 12, then the record.
use Rattle.sale.specs.Priced.{high_tier, not_priced, is_priced}
use Rattle.sale.proofs.open_at.Goals as goal

pub returns-then-tier-gt-MAX_TIER : goal.returns-then-tier-gt-MAX_TIER
returns-then-tier-gt-MAX_TIER c =
    let all = high_tier _ _ _ _ c.if-tier-gt-MAX_TIER.true in record { numbered = all.0; valued = all.1 }

pub returns-in_default : goal.returns-in_default
returns-in_default c =
    let all = not_priced _ _ _ _ c.if-tier-gt-MAX_TIER.false c.price_for.ensures c.in_default.is in
    record { numbered = all.0; valued = all.1 }

pub returns : goal.returns
returns c =
    let all = is_priced _ _ _ _ c.if-tier-gt-MAX_TIER.false c.price_for.ensures c.in-Some.is in
    record { numbered = all.0; valued = all.1 }
