pub mod FewLaws
pub mod FillingLaws
pub mod GroupLaws
pub mod TextLaws
